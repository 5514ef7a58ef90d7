pub mod ConnectionLemmas
pub mod RunLemmas
pub mod CrashLemmas
pub mod ServedLemmas
