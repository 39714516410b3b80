-- The definitions that this crate's contracts cite.
pub mod Expressions
pub mod Sentences
pub mod Functions
