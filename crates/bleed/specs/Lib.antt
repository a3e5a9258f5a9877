-- Which cells are bled, from the wishes of a history: the definitions that are to be believed, the third demand, and the code's walk.
pub mod Walk
-- What the code keeps from one sample to the next: the start cell, the run counters and who rests by them.
pub mod Resting
