pub mod Reach
pub mod Place
pub mod Discovery
pub mod Sites
pub mod Laws
