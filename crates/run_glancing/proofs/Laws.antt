-- Laws over plain values.
pub mod Looks
pub mod Sentences
