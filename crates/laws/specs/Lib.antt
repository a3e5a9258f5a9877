-- To be believed: single bits of a word; and their laws.
pub mod Bits
-- To be believed: the word of a test, bit by bit; and what its bits say.
pub mod Words
-- To be believed: "the last k", counts and runs over a history, the latest first; a run kept in a byte; and their laws.
pub mod Latest
-- To be believed: an array stepped entry by entry; and what each entry is.
pub mod Each
-- To be believed: a list given by number.
pub mod Numbered
-- How a proof goes by a test, and what a test made of others says.
pub mod Tests
-- What it means that a contract determines the answer.
pub mod Unique
-- Computed cases: bits at the ends of a word, words of tests, runs and counts.
pub mod Cases
