-- What never happens: its theorems stand in proofs/Never.
pub mod Never
-- Computed cases.
pub mod Cases
