pub mod Names
pub mod Limited
pub mod Readable
pub mod Replaced
