-- Laws of the conditions' reader.
pub mod Conditioned
