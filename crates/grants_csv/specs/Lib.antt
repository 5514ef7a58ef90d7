pub mod Fault
pub mod File
pub mod Records
pub mod Import
