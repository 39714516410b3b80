-- The definitions that this crate's contracts cite.
pub mod Writing
pub mod Writer
