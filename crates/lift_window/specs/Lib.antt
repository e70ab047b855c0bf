pub mod Window
pub mod Parts
pub mod Walk
