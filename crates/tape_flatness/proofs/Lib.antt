-- Laws that the proofs of this crate's functions cite, and the law of a table's tape.
pub mod Places
pub mod Passing
pub mod Low
pub mod Further
pub mod Spelled
pub mod Traced
pub mod Rows
