mod Frozen
mod Beginning
pub mod Firsts
pub mod OnePlaces
pub mod OneLists
pub mod Walked
pub mod Reading
pub mod OneDiscoveries
pub mod Nodes
