pub mod Beginnings
pub mod Staying
pub mod Straying
pub mod Fetching
mod Stores
mod Placed
mod Running
mod Acting
mod Unrefused
