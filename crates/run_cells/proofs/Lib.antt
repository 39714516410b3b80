-- The laws that the proofs of this crate cite, and a worked row of a move.
pub mod Laws
pub mod Rows
