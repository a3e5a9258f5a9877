-- The bands: at which values of each quantity no protection moves. That a sample inside every band moves none is shown in
-- proofs/BandLaws.antt.
pub mod Bands
-- What is kept of the protections beside them.
pub mod Watch
-- Computed cases: the bands of clear and of raised protections, of one with a run, and the blocked switches.
pub mod Cases
