-- A text put into a buffer: what a writer answers, and what it leaves of the buffer.
pub mod Placing
-- Worked cases, computed.
pub mod Cases
-- Laws: texts put into a buffer, one behind the other.
pub mod Putting
-- A row of five numbers, and room for the longest.
pub mod Rows
-- Laws: reading what was written gives it back.
pub mod Back
-- A writer, and what it puts.
pub mod Writers
-- Laws: how many digits a number of 64 bits has.
pub mod Places
