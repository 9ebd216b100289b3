pub mod Folder
pub mod Publishing
pub mod Memory
