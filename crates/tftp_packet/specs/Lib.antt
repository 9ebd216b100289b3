pub mod Packet
pub mod Fault
pub mod Decode
pub mod View
pub mod Refusal
pub mod Blocks
