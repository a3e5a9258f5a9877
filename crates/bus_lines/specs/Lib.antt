-- The bus as text: a line for each command; and that after a load and any events the lines are those that the page and the past say.
pub mod Lines
-- Worked lines, computed.
pub mod Cases
