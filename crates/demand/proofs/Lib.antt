pub mod Lists
pub mod Contracts
