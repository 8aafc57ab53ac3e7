pub mod Page
pub mod Columns
pub mod Figures
pub mod Record
pub mod Work
