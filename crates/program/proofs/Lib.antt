-- Laws that the program's proofs cite, and worked rows.
pub mod Shown
pub mod Rows
pub mod Reading
pub mod Writing
pub mod Whole
