pub mod Places
pub mod Timers
pub mod Turn
pub mod Parts
pub mod View
