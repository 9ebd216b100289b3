pub mod Lasts
pub mod Inbox
