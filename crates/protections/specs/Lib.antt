-- To be believed: document 01's table of protections, row by row, and document 02's two more.
pub mod Table
-- To be believed: what "at or above" and "at or below" mean, for tripping, for releasing and for the order of the two levels.
pub mod Direction
-- To be believed: what a page says of a protection, and the ranges of N, M and the switch mask.
pub mod Limits
-- Computed cases that pin the table and the directions.
pub mod Cases
