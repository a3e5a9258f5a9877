-- The next cell, the run counters and the word of who rests, as the code makes them. Walk/History defines who rests.
pub mod Steps
-- Laws of the run counters and of that word.
pub mod StepLaws
-- Computed cases: who rests in a pack of few cells, and how the counters go on.
pub mod Cases
