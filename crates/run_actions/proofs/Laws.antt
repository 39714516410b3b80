-- Laws over plain values.
pub mod Frames
pub mod Spanning
pub mod Acting
pub mod Computing
pub mod Sequences
pub mod Naming
pub mod Lines
