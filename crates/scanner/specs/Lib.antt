pub mod Scanner
pub mod Values
