-- Laws that the proofs of what is told of a table cite.
pub mod Known
pub mod Entries
pub mod Flat
