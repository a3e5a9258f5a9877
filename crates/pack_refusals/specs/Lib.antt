-- To be believed: rows 9, 10, 11 and 16 of document 01's table, and what is kept of an accepted sample.
pub mod Samples
-- Computed cases: each row by itself, both sides of each limit, and the lowest number where several rows apply.
pub mod Cases
-- The verdict by the highest cell, as the code finds it, and what the code needs of the verdicts.
pub mod SampleLaws
-- Two samples that agree up to their count are answered and kept alike; and what is kept of a sample has its highest and lowest cell.
pub mod Agree
