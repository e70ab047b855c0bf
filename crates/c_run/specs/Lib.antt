pub mod Env
pub mod RunBy
pub mod State
