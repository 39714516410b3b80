-- Laws of the gaps between tokens.
pub mod Gaps
