-- Laws that this crate's proofs cite, and the law of sums that its contracts' `Total` says.
pub mod Reading
pub mod Summing
pub mod Writing
