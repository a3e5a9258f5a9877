-- What a line is answered with.
pub mod Told
-- What a line does to a pack.
pub mod Tell
-- What document 01 says of a line, by the page and the events before it.
pub mod Says
-- When a line is refused with 17, and when it is malformed.
pub mod Seventeen
-- Worked lines, computed.
pub mod Cases
