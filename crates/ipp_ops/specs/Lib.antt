pub mod Checks
pub mod NewJob
pub mod Verdict
pub mod Answer
pub mod Validations
pub mod Caller
