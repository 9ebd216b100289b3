pub mod Listening
pub mod Listing
pub mod Ranges
