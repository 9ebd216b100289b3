mod Given
mod Sources
pub mod Building
pub mod Finding
pub mod Lines
pub mod Statuses
