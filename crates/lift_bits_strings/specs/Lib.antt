pub mod BitForms
pub mod Rounds
