pub mod Bools
mod ReadNames
mod Marking
mod Numbers
mod Agreeing
mod Renamed
mod FormedWords
mod PartsAlike
mod Simple
mod StmtRuns
mod Counting
pub mod FormedStmts
mod Whole
