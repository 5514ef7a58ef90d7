pub mod ByteOrder
pub mod Texts
pub mod Uris
