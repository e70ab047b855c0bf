pub mod Fronts
pub mod Refusing
pub mod Places
