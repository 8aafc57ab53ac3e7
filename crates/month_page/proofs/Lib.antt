pub mod Lines
pub mod Lays
pub mod Payments
pub mod Labels
pub mod Made
