mod Unique
pub mod Current
-- Laws: which rows are implied by the others, and the steps of the reader.
pub mod Reading
-- The steps of an `S` line as the reader takes it.
pub mod InTurn
-- An `S` line read along is the line that starts there.
pub mod AheadLaws
