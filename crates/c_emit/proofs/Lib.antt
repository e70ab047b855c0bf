pub mod Known
pub mod Seen
pub mod Renaming
pub mod StmtRuns
pub mod TreeRuns
pub mod Local
mod Gathering
mod Placing
mod Counting
mod Naming
mod FormedWords
mod FormedTrees
mod Declaring
mod Whole
mod LooseConds
mod Apart
mod LooseLines
mod LooseKnown
mod LoosePairs
