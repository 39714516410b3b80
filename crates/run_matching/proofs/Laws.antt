-- Laws over plain values.
pub mod Sentences
