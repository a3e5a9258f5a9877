-- No sample trips and releases one protection at once; no lowest cell wants bleeding or is bled.
pub mod Never
