pub mod Freeing
pub mod Opposites
pub mod Tests
pub mod Lists
pub mod Alike
pub mod Walking
pub mod Formed
pub mod Whole
