pub mod Names
pub mod Reading
pub mod Statements
pub mod Ends
pub mod Walking
pub mod Keeping
pub mod Ended
pub mod Agreed
