-- A listing is read back as the tree that it lists, in steps.
pub mod Places
pub mod Remaining
pub mod Words
pub mod Strings
pub mod Legible
pub mod Expressions
pub mod Patterns
pub mod Sentences
pub mod Tables
