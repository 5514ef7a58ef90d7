pub mod Cuts
pub mod Flags
pub mod Numbers
pub mod Readings
pub mod Tellings
pub mod Crashes
