-- To be believed: the two layouts of a page, and what each word is by its layout.
pub mod Kinds
-- To be believed: what rows 5 to 8 of the refusal table ask of a word, by what it is.
pub mod Met
-- Computed cases that pin the table of words for both layouts: its ends, and each of the reserved words.
mod Cases
