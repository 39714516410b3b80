-- Laws over plain values that the functions' proofs cite.
pub mod Declared
pub mod Leaving
pub mod Retraced
