pub mod Code
pub mod Files
