-- Four bytes held in one number, whether they are digits, and the number that they spell.
pub mod Four
-- The number at a place of a line and where it ends, and the quick way for four digits.
pub mod NumberAt
-- The same in bytes out of which no line was cut: the field ends at a tab or a newline.
pub mod Along
-- Worked cases, computed.
pub mod Cases
