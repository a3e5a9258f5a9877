-- To be believed: how many of ten entries are cells.
pub mod Cells
-- To be believed: a 16-bit word as a signed number, and the word that is sent for one.
pub mod Signed
-- A number as a level.
pub mod Levels
-- Computed cases: document 01's -2 and -32768, and the ends of both halves.
pub mod Cases
