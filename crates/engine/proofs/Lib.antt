-- Laws that the entry points' proofs cite, and worked rows.
pub mod Runs
pub mod OneFrame
pub mod Rows
