pub mod Lists
pub mod Bytes
pub mod Sending
pub mod Lines
pub mod Rows
