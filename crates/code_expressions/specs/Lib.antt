-- The definitions, in the order in which they build on each other.
pub mod Levels
pub mod Resuming
