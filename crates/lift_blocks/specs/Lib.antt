pub mod Ends
pub mod Effects
pub mod Flags
pub mod Extended
