pub mod Known
pub mod Checked
pub mod Emitted
pub mod Fitting
pub mod Laws
