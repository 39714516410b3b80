-- A worked row of the tape.
pub mod Rows
