pub mod Steps
mod Changes
