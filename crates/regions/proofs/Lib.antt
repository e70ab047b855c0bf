pub mod Agreed
pub mod Core
pub mod Entries
pub mod Tracks
pub mod Following
pub mod Standing
pub mod Blocks
mod PlainRuns
mod LineRuns
pub mod FlowWords
pub mod PlainFormed
mod Counted
pub mod Named
mod Lines
mod LineFormed
mod Whole
pub mod Stepping
mod Ending
