-- The laws of writing words, and of clearing them.
pub mod Stores
pub mod Writers
