pub mod Collecting
pub mod Paging
pub mod Comparing
pub mod Removing
pub mod Unsaid
pub mod Noting
pub mod Finding
