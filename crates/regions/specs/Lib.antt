pub mod Follows
pub mod Plain
pub mod Straight
pub mod Laws
