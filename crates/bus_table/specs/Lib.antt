-- To be believed: what a command can send.
pub mod Sends
-- To be believed: document 01's table of commands, row by row, and the row of 0x47.
pub mod Table
-- Computed cases: the table read back.
pub mod Cases
