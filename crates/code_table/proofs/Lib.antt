-- Laws and theorems about the definitions, and worked rows.
pub mod Laws
pub mod Rows
pub mod Translates
