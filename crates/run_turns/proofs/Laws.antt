-- Laws over plain values.
pub mod Statuses
pub mod Turning
pub mod Trying
