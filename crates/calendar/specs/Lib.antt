pub mod Calendar
pub mod Work
pub mod Days
