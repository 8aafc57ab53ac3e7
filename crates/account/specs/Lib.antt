pub mod Record
pub mod Step
