-- The reader refuses exactly the texts that are refused by definition: the statements stand in Refusals, worked rows in Rows.
pub mod Stages
pub mod Computed
pub mod Rows
pub mod Completing
pub mod Sums
pub mod Told
pub mod InPattern
pub mod InConditions
pub mod InExpression
pub mod InSentences
pub mod InTable
pub mod Agreeing
pub mod Deciding
pub mod First
pub mod Undeclared
pub mod Exactly
pub mod Refusals
