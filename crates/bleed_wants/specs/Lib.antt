-- To be believed: when a cell wants bleeding.
pub mod Wants
-- To be believed: a set of cells as a word, bit k - 1 for cell k; and what such a word shows.
pub mod Word
-- To be believed: who of a pack wants at one sample, from its cells; and the word of them.
pub mod Steps
-- What the loop needs: nobody wants without a charge, and cell i + 1 is entry i.
pub mod StepLaws
-- Computed cases: each end of each test, and the words of packs of four and of more than ten cells.
pub mod Cases
