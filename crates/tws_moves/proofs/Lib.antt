pub mod Codes
pub mod Numbers
pub mod Pieces
pub mod Ticks
pub mod Spellings
pub mod Held
pub mod Lanes
pub mod PieceKinds
pub mod Waits
pub mod Least
pub mod PackedBytes
pub mod NextPieces
pub mod LateMoves
pub mod Repacking
mod Again
