-- To be believed: what a page says, in the units of the samples, and what a load gives.
pub mod Settings
-- That a level in whole tenths is reached exactly if the degrees are, and that levels keep their order.
pub mod Degrees
-- Every fact that later proofs take from an accepted page.
pub mod Good
-- Computed cases: three pages with all that they say, one of them of 160 bytes, and document 02's degrees.
pub mod Cases
