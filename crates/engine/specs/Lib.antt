-- What the entry points hand back and leave.
pub mod Told
pub mod TableRuns
