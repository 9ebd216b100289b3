pub mod Machine
pub mod Bounds
pub mod LastAck
pub mod Patience
