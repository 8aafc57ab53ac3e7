pub mod Printer
pub mod Printing
