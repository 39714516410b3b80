-- Laws over plain values.
pub mod Reading
