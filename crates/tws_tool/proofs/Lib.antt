pub mod Asking
pub mod Seeing
