pub mod Doing
pub mod Straight
pub mod PathRuns
pub mod First
pub mod Second
pub mod Whole
