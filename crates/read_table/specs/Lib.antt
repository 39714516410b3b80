-- The definitions that this crate's contracts cite.
pub mod Calls
pub mod Reads
pub mod Through
