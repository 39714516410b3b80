-- Which texts are refused, with which number and at which place.
pub mod Looking
pub mod Faults
