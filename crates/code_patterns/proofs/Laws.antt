-- Laws over plain values that the functions' proofs cite.
pub mod Scanning
pub mod Measured
pub mod Held
pub mod Tested
pub mod Conditioned
