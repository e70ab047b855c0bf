pub mod Fitting
pub mod Beginning
pub mod Turning
pub mod Steps
pub mod Ends
pub mod Depths
