pub mod Shows
mod Hexadecimals
mod Words
mod Stmts
pub mod Texts
mod Levels
pub mod Loops
mod Functions
