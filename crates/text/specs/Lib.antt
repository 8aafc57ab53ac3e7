pub mod Form
pub mod Text
pub mod Words
