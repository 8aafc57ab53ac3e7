pub mod Summary
pub mod Work
