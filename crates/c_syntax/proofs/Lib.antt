pub mod Induct
pub mod Layers
pub mod Runs
pub mod AsC
mod Digits
mod Lexing
mod LexWords
mod LexStmts
mod Items
mod Spelled
mod ReadWords
mod ReadStmts
mod Formed
mod ReadFunctions
mod Prints
