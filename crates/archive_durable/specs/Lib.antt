pub mod Crashes
pub mod Perfect
