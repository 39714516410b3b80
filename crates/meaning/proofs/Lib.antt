-- Worked rows and laws of the definitions.
pub mod Rows
pub mod Laws
