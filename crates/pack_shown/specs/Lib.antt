-- To be believed, its first part: what document 01 says of the switches, the mode and a line of the replay, from the page and the past.
-- Then the same from the state, as the code works it out.
pub mod Shown
-- Computed cases: the modes and their order, and the bits of the switches.
pub mod Cases
-- What the state of a past shows is what document 01 says of that past.
pub mod Decided
