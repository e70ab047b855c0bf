mod Held
mod Taken
