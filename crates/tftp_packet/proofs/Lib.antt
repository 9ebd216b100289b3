pub mod Bytes
pub mod Zeros
pub mod Packets
pub mod Results
pub mod Cutting
pub mod Order
pub mod Sent
