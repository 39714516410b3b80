-- Laws of the tokens at places of a text.
pub mod Words
pub mod Strings
pub mod Shortest
pub mod Showing
pub mod Onward
pub mod Stream
pub mod Variants
