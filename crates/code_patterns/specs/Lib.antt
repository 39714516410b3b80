-- The definitions, in the order in which they build on each other.
pub mod Scans
pub mod Measuring
pub mod Testing
pub mod Conditioning
