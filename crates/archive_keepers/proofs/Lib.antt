pub mod Apart
pub mod Logs
pub mod Lifetimes
pub mod Cutting
