pub mod Causes
pub mod MemFiles
pub mod MemSink
