mod Sizes
mod Numbers
mod Signs
mod Values
mod Given
pub mod Operations
pub mod Truths
pub mod Shapes
