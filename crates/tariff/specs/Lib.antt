pub mod Tariff
pub mod Prices
