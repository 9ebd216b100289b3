pub mod Covering
pub mod Copies
pub mod Moving
pub mod Standing
pub mod Having
pub mod Concluding
