mod Turn
pub mod Counts
pub mod Ledgers
pub mod Terms
pub mod Whole
