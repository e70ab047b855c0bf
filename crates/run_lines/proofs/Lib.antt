mod Digits
mod Loaded
mod Stored
mod Said
