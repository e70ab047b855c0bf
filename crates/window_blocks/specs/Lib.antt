pub mod Locals
pub mod Path
pub mod Shapes
