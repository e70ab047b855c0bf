pub mod Induct
pub mod Layers
pub mod Runs
mod Meaning
