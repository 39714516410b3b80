-- The definitions that this crate's contracts cite, in the order in which they build on each other.
pub mod States
pub mod Spans
