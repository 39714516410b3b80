-- The laws of the class table.
pub mod Table
