-- Demand 2's theorems about the definitions.
pub mod Reading
pub mod RoundTrip
pub mod OneTree
pub mod Demand2
pub mod ReadBack
