pub mod Common
pub mod Straight
pub mod Does
pub mod MoveWords
pub mod FlagWords
pub mod OneBlock
