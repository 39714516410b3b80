-- Laws over plain values.
pub mod Storing
pub mod Waiting
pub mod Simulation
pub mod Applying
pub mod Calling
