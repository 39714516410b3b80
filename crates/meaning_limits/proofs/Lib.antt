-- Worked rows at 01's limits.
pub mod Reading
pub mod Running
