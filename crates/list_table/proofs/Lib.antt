-- The laws that the proofs of the functions cite.
pub mod Sizes
pub mod Stepping
pub mod Leaving
pub mod Spelled
pub mod Lists
