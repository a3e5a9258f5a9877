-- To be read first: the list of document 01's starred cases, and the claim that they hold of our definitions.
pub mod Starred
-- The case of one cell that always wants, for any number of cells and samples.
pub mod EverySecond
