-- Rules for a proof by hand, which walks a function's MIR: how it enters the tables, what is handed on to a callee, what a callee answers, what is
-- lent for a call, and a function's locals.
pub mod Entering
pub mod Apart
pub mod Handing
pub mod Answering
pub mod Lending
pub mod Locals
