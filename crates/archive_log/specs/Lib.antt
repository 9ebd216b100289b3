pub mod Lines
pub mod Events
pub mod Budget
pub mod ServerLog
