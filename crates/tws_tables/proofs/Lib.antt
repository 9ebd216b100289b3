pub mod Listed
pub mod Pieces
pub mod Parts
pub mod Gathered
pub mod Wholes
pub mod Digits
pub mod Unquoted
