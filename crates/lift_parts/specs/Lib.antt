pub mod Stands
pub mod Lifted
pub mod Parts
pub mod Shown
pub mod Safe
