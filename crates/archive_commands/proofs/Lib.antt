pub mod Fetching
pub mod Files
pub mod Plans
pub mod Said
mod Sending
pub mod Statuses
pub mod Stoppers
pub mod Syncs
pub mod Taking
