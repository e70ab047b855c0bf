pub mod Halves
pub mod Merge
pub mod Parts
pub mod Strays
mod Sums
