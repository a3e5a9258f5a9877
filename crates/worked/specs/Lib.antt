-- Document 01's replay example, computed byte for byte from the definitions.
pub mod Example
-- Pages worked by hand: each row, each end of each word, and which number is given.
pub mod Pages
