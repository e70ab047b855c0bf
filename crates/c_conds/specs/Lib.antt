pub mod Free
pub mod Placed
pub mod Keeps
