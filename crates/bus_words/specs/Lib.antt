-- To be believed: the word of each row of the table, and what it is read from, by the page and the past; then by a state.
pub mod Words
-- Computed cases: each bit of the status, the words of document 01's replay, the protections one by one, ten unlike cells, 0x47.
pub mod Cases
-- The words fit 16 bits.
pub mod Bounds
-- What single words say. Demand 2 on the bus, that after any load and events the word of each command is what document 01 says, is shown in
-- proofs/Demands.antt.
pub mod Demands
-- Computed words of a state.
pub mod OfState
