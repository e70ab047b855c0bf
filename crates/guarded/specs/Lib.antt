pub mod Run
pub mod Uses
pub mod Numbers
pub mod Formed
pub mod Counts
pub mod Loose
pub mod Laws
