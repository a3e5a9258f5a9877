-- A field as a number, with or without a minus.
pub mod Numbers
-- Exactly the decimal text of a number in range is read, and as that number.
pub mod Canonical
-- A number that may have a minus, read in two steps, as the code does.
pub mod Signs
-- Worked cases, computed.
pub mod Cases
