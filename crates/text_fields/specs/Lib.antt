-- A quoted text as its bytes.
pub mod Quoted
-- The bytes before the first of a kind, and the search for it.
pub mod Finding
-- The fields of a line, read and written.
pub mod Fields
-- The decimal text of a number.
pub mod Decimal
-- Worked cases, computed.
pub mod Cases
-- Laws: the field that starts at a place is the first of those that are left there.
pub mod Splitting
-- Laws: the decimal text of a number, digit by digit.
pub mod Spelling
