-- What `decide` shows after a load and any calls, and at each accepted sample: the definitions that the second and third demand speak of.
pub mod Shown
-- What the third demand says of the samples at which a cell waits. Its theorems, and those of the other two, stand in proofs/Demands.
pub mod Suffice
-- What a sample, a command and a line are answered with, exactly.
pub mod Answers
-- Fields that are the texts of numbers in range are read as these numbers.
pub mod Said
-- What a sample must read to trip a protection and to release it, by the page's own words.
pub mod Levels
-- Who wants, the mode and the words on the bus, by the page's own words.
pub mod ByWords
-- What the replay writes for a log, line by line.
pub mod History
-- The third demand for the bled words of a history.
pub mod BledWords
-- With two cells two samples suffice.
pub mod TwoCells
-- With three to ten cells n samples are too few.
pub mod TooFew
-- What lies past a sample's count changes nothing.
pub mod Agree
-- Computed cases, from the load to what is shown.
pub mod Cases
-- Samples and pages for the computed cases, written short.
pub mod Written
