pub mod CommandLine
pub mod Values
