pub mod Client
pub mod View
pub mod Patience
