pub mod Hosts
pub mod Ports
pub mod Serve
