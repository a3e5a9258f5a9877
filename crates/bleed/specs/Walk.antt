-- To be believed: which cells the walk of one sample takes.
pub mod Walk
-- To be believed: who rests, the start cell, and who is bled at each sample of a history.
pub mod History
-- What the laws of the walk say of a cell that is not taken.
pub mod Settled
-- Computed cases: the starred samples, and each of document 01's slips.
pub mod Cases
-- A list of cells as a word.
pub mod Word
-- What the code works out at one sample, from words.
pub mod Steps
-- The order of the walk as the code goes through it, and the cells of a pack.
pub mod InPack
-- To be believed: what the walk has taken when it reaches a cell.
pub mod Reached
-- What a pack keeps for bleeding, as the history says it.
pub mod Balance
