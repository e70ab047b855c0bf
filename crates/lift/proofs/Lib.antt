mod SwappedWords
mod Moves
mod Stack
mod Arithmetic
mod Jumps
mod Sound
mod Steady
mod Keeps
pub mod All
