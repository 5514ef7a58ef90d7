pub mod Lists
pub mod Tables
