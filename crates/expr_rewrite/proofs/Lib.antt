pub mod Pairing
pub mod Standing
pub mod Doing
pub mod Keeping
