-- Laws of reading functions, sentences and expressions.
pub mod Onward
pub mod Joining
pub mod Opened
pub mod Calling
pub mod Expressed
pub mod Sentenced
pub mod Sentencing
pub mod Noting
pub mod Functioned
