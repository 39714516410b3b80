-- Worked rows of the definitions.
pub mod Read
