pub mod Kept
pub mod MemoryWires
