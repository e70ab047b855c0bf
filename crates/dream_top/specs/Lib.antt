pub mod Statuses
pub mod CommandLine
pub mod Notes
pub mod Header
pub mod Answers
pub mod Loading
pub mod Laws
pub mod Runs
