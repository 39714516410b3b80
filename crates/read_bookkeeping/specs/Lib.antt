-- The definitions that this crate's contracts cite.
pub mod Tables
pub mod Answered
pub mod Written
pub mod Tokened
pub mod Items
