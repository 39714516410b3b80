-- Demand 3's theorems about the definitions, those of T-06 and T-07, and those that join demand 2 to demand 3.
pub mod Laws
pub mod Agreement
pub mod Example
pub mod Demand3
pub mod Flat
pub mod BytesToCells
