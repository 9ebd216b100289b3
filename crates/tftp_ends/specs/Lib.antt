pub mod Ends
pub mod Chunks
pub mod Held
pub mod View
pub mod Pair
pub mod Input
pub mod Patience
