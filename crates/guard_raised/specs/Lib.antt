-- To be believed: the raised word, whether a protection is raised, and which switches the raised ones block, from the history; the same read off
-- the array; and that the two agree.
pub mod Words
-- To be believed, its first part: the lowest number that a test picks. Then what a search for it needs.
pub mod Lowest
-- Computed cases: each bit, each switch, a protection of mask 0, and a history without a sample.
pub mod Cases
