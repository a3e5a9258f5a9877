-- To be believed: the check byte as the remainder of a polynomial.
pub mod CheckByte
-- Document 01's three check bytes, computed.
pub mod Vectors
-- Bytes more.
pub mod Next
-- The table of sixteen entries, and its rule.
pub mod Halves
