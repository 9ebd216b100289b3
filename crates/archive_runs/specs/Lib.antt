pub mod Run
pub mod Rounds
