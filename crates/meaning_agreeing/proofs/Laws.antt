-- Laws of the definitions that only the theorems here need.
pub mod Answers
pub mod Bounds
pub mod Templates
pub mod Translated
pub mod Narrow
pub mod Known
pub mod Counts
pub mod Framing
pub mod Lighter
pub mod Related
pub mod Depth
pub mod Room
pub mod Frames
pub mod Cuts
pub mod Fits
pub mod OneFit
