-- Laws of what the readers share.
pub mod Choosing
pub mod Tokening
pub mod Spelling
pub mod Finding
pub mod Declaring
pub mod Lengths
pub mod Naming
pub mod Words
pub mod Going
pub mod Items
pub mod Itemed
pub mod Refusing
