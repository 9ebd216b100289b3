pub mod Text
pub mod Tally
pub mod Shown
