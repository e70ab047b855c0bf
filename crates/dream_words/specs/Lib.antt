pub mod Words
pub mod Signed
pub mod Registers
pub mod Memory
pub mod Pages
pub mod Ranges
pub mod Same
pub mod Agreement
