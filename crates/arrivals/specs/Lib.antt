pub mod Taken
pub mod History
pub mod Crash
pub mod Books
