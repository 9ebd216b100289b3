pub mod Running
pub mod Rounding
