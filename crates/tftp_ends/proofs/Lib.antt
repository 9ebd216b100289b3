pub mod Steps
pub mod Holding
pub mod Network
pub mod Runs
pub mod Chunking
pub mod Waits
