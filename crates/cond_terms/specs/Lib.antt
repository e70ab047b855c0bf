pub mod Terms
pub mod Nesting
pub mod Exclusion
pub mod Simple
pub mod Factored
pub mod Guards
pub mod Reaching
pub mod Laws
