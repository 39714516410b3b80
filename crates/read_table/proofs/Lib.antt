-- Laws of reading.
pub mod Called
pub mod Verdict
