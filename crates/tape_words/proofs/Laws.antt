-- Laws over plain values that the functions' proofs cite.
pub mod Lists
pub mod Names
pub mod Spelling
