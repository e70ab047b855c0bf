pub mod Quiet
pub mod Forms
pub mod Registers
pub mod Operands
pub mod Moves
pub mod Paths
pub mod Branches
pub mod Tables
