-- Laws that this crate's proofs cite, and worked rows.
pub mod Numerals
pub mod Putting
pub mod Rows
