-- Laws of the pattern's reader.
pub mod Elements
pub mod Faults
pub mod Adding
pub mod Patterned
