-- The next line of a text, and what it says.
pub mod Next
-- What the replay writes for a page and a log, and what the functions over a cut log answer.
pub mod Replay
-- However the log is cut: what is written is what the replay writes, and the pack behind is the one that the events say.
pub mod Run
-- Worked logs, computed.
pub mod Cases
