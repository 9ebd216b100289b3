pub mod Address
pub mod Arguments
pub mod Lines
