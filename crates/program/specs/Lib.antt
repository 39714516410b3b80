-- What the program prints, and what a write that fails leaves.
pub mod Printed
pub mod Written
