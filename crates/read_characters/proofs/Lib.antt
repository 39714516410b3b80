-- Laws of the characters of a string.
pub mod Strings
