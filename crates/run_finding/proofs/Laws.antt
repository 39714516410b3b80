-- Laws over plain values.
pub mod Bits
pub mod Marking
pub mod Suiting
pub mod Standing
pub mod Passing
