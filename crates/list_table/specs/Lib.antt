-- The definitions that this crate's contracts cite.
pub mod Words
pub mod Leaves
