pub mod Arrivals
pub mod Drawing
pub mod Dealing
pub mod Returning
