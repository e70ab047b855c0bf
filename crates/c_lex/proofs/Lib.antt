pub mod Scanning
pub mod Joining
pub mod Hexadecimals
pub mod Found
pub mod Tokens
