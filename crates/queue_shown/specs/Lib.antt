pub mod Fetched
pub mod Heads
pub mod Sent
pub mod Sending
pub mod Stops
