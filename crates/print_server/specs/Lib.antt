pub mod Lines
pub mod Connections
