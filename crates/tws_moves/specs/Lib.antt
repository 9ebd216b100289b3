pub mod Bytes
pub mod Move
pub mod Spelling
pub mod Shortest
pub mod Steps
