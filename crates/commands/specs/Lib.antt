pub mod Books
pub mod Found
pub mod Printed
pub mod Refusals
pub mod Store
pub mod Words
pub mod Work
