-- Laws over plain values.
pub mod Moving
pub mod Turning
pub mod Ranges
