pub mod Interface
pub mod Texts
