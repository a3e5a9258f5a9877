-- To be believed: what happens to a pack after its load, and what counts of it.
pub mod Events
-- To be believed: what a sample and a switch command do to a pack, and what they answer.
pub mod Answers
-- To be believed: what a load answers, and what a call may take as given of a pack state.
pub mod Kept
-- Each call leads from the state after some events to the state after one event more; of an offered sample proofs/Offered.antt shows it.
pub mod Calls
-- The pack after a load and any calls. It is in the state that the page and the past say: shown in proofs/After.antt.
pub mod After
