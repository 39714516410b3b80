-- Demand 3 without end: the machine on a table's translation does what rewriting the table does.
pub mod Carrying
pub mod Standing
pub mod Sound
pub mod Expressions
pub mod Templates
pub mod Patterns
pub mod Places
pub mod Layout
pub mod Cells
pub mod Stored
pub mod Fitting
pub mod Facts
pub mod Sentences
pub mod Recovering
pub mod Agree
pub mod Total
