pub mod Turns
pub mod Rests
pub mod Reads
pub mod Readers
