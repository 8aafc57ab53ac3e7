pub mod Arms
pub mod Cost
pub mod Early
pub mod Places
