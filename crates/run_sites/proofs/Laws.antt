-- Laws over plain values.
pub mod Lists
pub mod Sites
