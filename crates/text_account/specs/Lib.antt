pub mod TextAccount
