pub mod CrashLemmas
pub mod EndingLemmas
pub mod FaultLemmas
pub mod NameLemmas
pub mod PrintedLemmas
pub mod StoreLemmas
pub mod WorkLemmas
