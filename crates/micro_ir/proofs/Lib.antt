pub mod Named
pub mod Adds
pub mod More
pub mod Moves
pub mod Values
pub mod Worlds
pub mod FlowNames
