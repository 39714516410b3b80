-- Laws of refusals, and worked rows.
pub mod Refused
pub mod Rows
