-- To be read first: the user's sentences, one after the other, and under each its theorem.
pub mod Demands
