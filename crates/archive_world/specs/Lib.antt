pub mod Outcomes
pub mod View
pub mod Inside
pub mod Replays
pub mod Ending
pub mod Exits
