pub mod Statuses
pub mod Collecting
pub mod Sources
pub mod Opened
pub mod Said
pub mod Showing
