mod Composed
mod Settling
