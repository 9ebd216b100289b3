pub mod Words
pub mod Schedule
pub mod Answer
pub mod Spelling
