-- Laws over plain values that the functions' proofs cite.
pub mod Naming
pub mod Items
pub mod Resumed
pub mod Endings
pub mod Itemised
