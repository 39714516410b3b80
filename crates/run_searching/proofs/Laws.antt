-- Laws over plain values.
pub mod Places
pub mod Scanning
pub mod Strings
