pub mod TextPage
