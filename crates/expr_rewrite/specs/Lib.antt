pub mod Pairs
pub mod Rewritten
