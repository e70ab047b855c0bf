pub mod Parts
pub mod Steps
pub mod World
pub mod Effects
pub mod Laws
