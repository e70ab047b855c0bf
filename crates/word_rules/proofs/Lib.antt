pub mod Layers
pub mod Congruence
mod Bits
mod Covered
mod Effects
mod Looks
mod Rules
mod OtherRules
mod PlainFor
