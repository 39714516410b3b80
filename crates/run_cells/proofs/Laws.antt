-- Laws over plain values.
pub mod Copying
pub mod Moving
