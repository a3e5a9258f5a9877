-- To be read first: the request's sentences, and under each its theorem, over an accepted page and any events since its load.
pub mod Rounds
