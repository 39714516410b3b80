-- Laws over plain values.
pub mod Tables
pub mod Leaving
pub mod Glancing
pub mod Growing
