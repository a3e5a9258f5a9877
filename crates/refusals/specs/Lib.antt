-- To be believed: what a refusal table is, and which number and word it gives; and that this is the lowest, whatever the order of looking.
pub mod Refusals
-- To be believed: what a verdict is.
pub mod Verdicts
-- To be believed: document 01's number and word for each verdict.
pub mod Answers
-- Computed cases that pin both.
mod Cases
