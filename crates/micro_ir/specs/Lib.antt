pub mod Run
pub mod World
pub mod Env
pub mod Checked
pub mod Rule
pub mod Counts
pub mod Laws
