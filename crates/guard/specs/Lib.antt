-- To be believed: the run rule from the history (`rule_raised_after`, `alarm_after`). Then the same by counting; that the two agree is shown in
-- proofs/RunLaws.antt.
pub mod Runs
-- To be believed: each protection and all of them from the page's limits and the history. Then the step of the code.
pub mod Steps
-- When the history raises and releases, and what the loop over the protections needs. That the step leads from what a history says to what the
-- longer history says is shown in proofs/StepLaws.antt.
pub mod StepLaws
-- Computed cases: the starred run of samples, each direction, the ends of a signed current, the runs, a sample between the levels,
-- some of the protections stepped.
pub mod Cases
