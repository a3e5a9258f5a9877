-- What the request's three sentences speak of: their theorems stand in proofs/Rounds.
pub mod Rounds
-- The same over any history of wishes.
pub mod Waits
-- Computed cases.
pub mod Cases
