mod Hex
mod Streams
mod Held
mod Causes
mod Lines
mod Made
