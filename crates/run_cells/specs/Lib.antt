-- The definitions that this crate's contracts cite.
pub mod Copied
pub mod Moved
pub mod Places
