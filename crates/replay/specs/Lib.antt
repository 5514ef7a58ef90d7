pub mod Books
pub mod Faults
pub mod Line
pub mod Places
pub mod Replay
pub mod RequestLine
pub mod Session
pub mod Unread
