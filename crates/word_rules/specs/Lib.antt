pub mod Parts
pub mod Standing
pub mod Numbers
pub mod Covers
pub mod Plain
pub mod Settled
pub mod Operators
pub mod Turns
