pub mod Lexemes
pub mod Candidates
pub mod Laws
