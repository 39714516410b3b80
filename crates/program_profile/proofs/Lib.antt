-- Laws that this crate's proofs cite.
pub mod Lines
pub mod Names
