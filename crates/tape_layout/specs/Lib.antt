-- How a table's tree lies on the tape.
pub mod Tape
