pub mod Jobs
pub mod Refusals
pub mod CommandLine
pub mod Visible
