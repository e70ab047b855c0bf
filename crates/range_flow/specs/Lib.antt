pub mod Pieces
pub mod Flow
pub mod Plan
pub mod Counts
pub mod Laws
pub mod Nodes
pub mod Lifting
