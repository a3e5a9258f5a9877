-- Laws of one walk: at most K, no two neighbours, nobody passed over without a reason, a lone wanting cell is bled unless it rests.
pub mod WalkLaws
-- The third demand over any history of wishes.
pub mod Demand
-- That n samples would not do.
pub mod TooFew
-- The code's walk over words is the walk over cells.
pub mod StepLaws
-- A cell is bled exactly if it is taken when the walk reaches it, and the code's walk up to the cell has taken the same.
pub mod Reached
-- The code's walk, turn by turn.
pub mod Walked
-- What a pack keeps for bleeding is what the history says; one step of the code's leads to what the longer history says.
pub mod Balance
