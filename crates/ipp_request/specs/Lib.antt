pub mod Attributes
pub mod Values
pub mod Formats
pub mod Request
pub mod Reading
pub mod Unsupported
