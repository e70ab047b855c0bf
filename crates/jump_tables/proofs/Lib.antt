mod Finding
pub mod Standing
mod Fronts
mod Tables
mod Registers
mod Steps
