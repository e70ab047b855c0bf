mod CountWords
mod Shifted
mod Outs
mod Taken
mod Setting
mod Given
mod Leading
mod Filled
mod Fitting
pub mod Whole
