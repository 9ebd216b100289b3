pub mod Bytes
pub mod Output
pub mod Failures
pub mod Printable
