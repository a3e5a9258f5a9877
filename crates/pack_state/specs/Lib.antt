-- To be believed: the past of a pack, what counts of all that happened to it.
pub mod Past
-- To be believed, its first part: the state of a page and a past, as document 01 says it. Then the step that the code takes.
pub mod State
-- The step leads from the state of a past to the state of the longer past; what the state keeps that no output shows.
pub mod Steps
-- A protection that the page does not have is never raised.
pub mod Absent
-- Computed cases: the tick, the starred seven samples with the start cell, who rests and who is bled at each, and a protection of mask 0 that stops bleeding.
pub mod Cases
-- A computed case in which n, K and R are unlike.
pub mod Unlike
-- Computed cases: who wants and who is bled where the floor, the difference and the detection current are other ones.
pub mod Wishes
