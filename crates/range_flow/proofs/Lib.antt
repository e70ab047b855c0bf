mod Joining
mod Placing
mod Begun
mod Outsiders
pub mod Ends
pub mod Simulates
pub mod Frozen
pub mod Members
pub mod Numbering
pub mod Planned
pub mod Beginning
pub mod Covering
pub mod RangePlan
pub mod Few
pub mod Standing
pub mod Joined
pub mod Given
pub mod Counted
pub mod FoundPlaces
