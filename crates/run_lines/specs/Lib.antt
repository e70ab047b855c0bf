pub mod Numbers
pub mod StartWords
pub mod Starts
pub mod Lines
pub mod Laws
