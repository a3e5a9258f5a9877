-- To be believed: the highest and the lowest cell of a sample, with their numbers; and that they are what these words say.
pub mod Cells
-- To be believed: what a protection looks at, when a sample trips it and when it qualifies for the release.
pub mod Measure
-- The sample that stands where there is none.
pub mod None
-- Samples written short, and computed cases of every quantity, of equal cells and of a value between the levels.
pub mod Cases
