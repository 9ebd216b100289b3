pub mod Members
pub mod Archive
pub mod Calls
pub mod Starts
