pub mod Statements
pub mod Counts
pub mod Lines
pub mod Sums
pub mod Laws
