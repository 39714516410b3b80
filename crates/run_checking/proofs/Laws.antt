-- Laws over plain values.
pub mod Cells
pub mod Parts
pub mod Testing
