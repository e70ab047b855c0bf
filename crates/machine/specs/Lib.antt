pub mod Steps
pub mod Code
pub mod Run
pub mod Free
pub mod Laws
pub mod Held
pub mod Coded
