pub mod Uses
pub mod Alike
pub mod Along
pub mod Keeps
pub mod Laws
