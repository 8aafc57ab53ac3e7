pub mod Contracts
pub mod Events
