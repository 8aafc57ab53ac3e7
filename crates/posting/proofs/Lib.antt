pub mod Ledgers
pub mod RowTurn
