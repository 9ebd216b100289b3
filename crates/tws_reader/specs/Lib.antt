pub mod Steps
pub mod PartReader
pub mod Reader
