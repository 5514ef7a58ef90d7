pub mod Operations
pub mod JobReply
pub mod PrinterReply
pub mod PrinterView
pub mod Content
pub mod Wanted
pub mod Unsupported
pub mod Reply
