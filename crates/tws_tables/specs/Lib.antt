pub mod Listing
pub mod Solved
pub mod Csv
pub mod Steps
