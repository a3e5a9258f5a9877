-- To be believed: the status of each way to end.
pub mod Statuses
-- Computed cases that pin it.
mod Cases
