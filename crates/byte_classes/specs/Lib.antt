-- The definitions that this crate's contracts cite.
pub mod Tests
pub mod Classed
