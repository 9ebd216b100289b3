pub mod World
pub mod Restarts
pub mod Adding
