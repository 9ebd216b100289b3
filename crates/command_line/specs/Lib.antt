pub mod Arguments
pub mod CommandLine
pub mod Faults
pub mod Help
pub mod Inputs
pub mod Printing
pub mod Reading
pub mod Saying
