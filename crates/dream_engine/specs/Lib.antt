pub mod Agreement
pub mod Settled
pub mod Short
pub mod Tree
