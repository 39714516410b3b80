-- Laws of the definitions.
pub mod Remaining
pub mod Passing
pub mod Places
pub mod Spelling
pub mod Beginnings
pub mod Words
pub mod Storing
pub mod Packable
pub mod Packing
pub mod Choosing
pub mod Angles
