-- A log as a list of lines, and where the next one ends.
pub mod Lines
-- What is carried on from one read to the next.
pub mod Carrying
-- The state behind a log, wherever it is cut.
pub mod Folded
-- What a log is answered with, and that text and state go together, wherever it is cut.
pub mod Output
-- A chunk of log, answered into a lent buffer.
pub mod Chunk
-- Any number of rounds of reading and answering: the whole log.
pub mod Run
-- Worked cases, computed.
pub mod Cases
-- Laws: the lines of a log, found one after the other.
pub mod Walking
