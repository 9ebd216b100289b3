pub mod Archives
pub mod Reaching
