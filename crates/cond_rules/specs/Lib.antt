pub mod Negation
pub mod Widths
pub mod Forms
