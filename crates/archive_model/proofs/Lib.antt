pub mod Places
pub mod Endpoints
pub mod Sources
pub mod Doing
pub mod Growing
pub mod Origins
pub mod Entries
