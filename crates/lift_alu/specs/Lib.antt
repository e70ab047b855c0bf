pub mod Words
pub mod Lifts
