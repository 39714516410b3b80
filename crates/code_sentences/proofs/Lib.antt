-- Laws over plain values that the functions' proofs cite.
pub mod Patching
pub mod Shapes
pub mod Sentenced
