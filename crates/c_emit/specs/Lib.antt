pub mod Places
pub mod Emitted
pub mod Laws
pub mod Gathered
