-- What a line of the log says, field by field.
pub mod Entry
-- Worked lines, computed.
pub mod Cases
-- The fields from a place of a line on.
pub mod Left
-- An `S` line as the reader takes it, number by number.
pub mod InTurn
-- How many bytes some fields take, and whether they have a byte.
pub mod Spread
-- An `S` line read along, before its newline was looked for.
pub mod Ahead
