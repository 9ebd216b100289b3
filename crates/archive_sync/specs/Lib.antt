pub mod News
pub mod Fetching
