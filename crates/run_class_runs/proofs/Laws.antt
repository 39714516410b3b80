-- Laws over plain values.
pub mod Runs
