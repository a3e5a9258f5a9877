-- To be believed: the refusal table 1 to 8 of a page of either length.
pub mod Page
-- Each number is given exactly as its row says.
pub mod Exactly
-- A taken page with all its byte pairs swapped is refused.
pub mod Swapped
-- What an accepted page says of each of its words.
pub mod Accepted
-- The table as the judge's code walks it.
pub mod Walk
-- The page of document 01's replay example, a page of 160 bytes, and pages that differ from these in a few words.
pub mod Worked
-- Computed verdicts on pages of 160 bytes.
mod Long
-- Computed verdicts on pages whose first word is another.
pub mod Marks
-- "There is no other reason to refuse."
pub mod Enough
-- Computed: pages that look odd and are accepted.
mod Odd
