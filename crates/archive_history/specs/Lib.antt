pub mod Times
pub mod HistoryFault
pub mod Kept
pub mod Markers
pub mod History
pub mod Steps
