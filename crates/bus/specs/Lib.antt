-- To be believed: what the answer to a command is.
pub mod Replied
-- To be believed: refusals 12 to 15, the three bytes of a word, and what stands in the lent buffer afterwards; of the page and the past,
-- and of a state.
pub mod Replies
-- Computed cases: the starred frames, each of the 256 commands before a sample, and 13 for each n.
pub mod Cases
-- Demands 1 and 2 on the bus: each refusal exactly when its row says, and the answer and the buffer after any load and events.
pub mod Demands
