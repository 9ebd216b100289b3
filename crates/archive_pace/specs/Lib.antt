pub mod Pace
pub mod View
pub mod Queue
pub mod Unheard
