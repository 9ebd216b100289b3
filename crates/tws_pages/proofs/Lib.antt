pub mod Counted
pub mod Parts
pub mod Wholes
pub mod Escapes
pub mod Named
pub mod Leveled
