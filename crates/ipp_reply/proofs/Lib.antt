pub mod Lists
pub mod Put
pub mod Rows
pub mod PrinterRows
