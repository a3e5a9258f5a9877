-- The lines that the replay writes.
pub mod Texts
-- Room for the longest answer, and what is written before the lines.
pub mod Room
-- Laws: the texts as the code puts them together, and how long they can be.
pub mod Writing
-- Worked texts, computed.
pub mod Cases
