pub mod Counts
pub mod Digits
pub mod Laws
mod Numbers
pub mod Placed
