pub mod Ends
pub mod Joined
pub mod Known
pub mod Laws
