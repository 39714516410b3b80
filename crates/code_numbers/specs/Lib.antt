-- The definitions that contracts of the crates above cite.
pub mod Numbers
pub mod Operations
