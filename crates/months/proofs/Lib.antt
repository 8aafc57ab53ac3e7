pub mod Agrees
pub mod Numbers
pub mod Span
pub mod Sums
pub mod Turns
