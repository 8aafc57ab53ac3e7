pub mod Events
pub mod Whole
