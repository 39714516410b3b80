-- Laws over plain values.
pub mod Heads
pub mod Settling
