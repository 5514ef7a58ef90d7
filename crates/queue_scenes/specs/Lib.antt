pub mod Jobs
pub mod Counts
pub mod Reports
pub mod Accounts
pub mod Expiry
