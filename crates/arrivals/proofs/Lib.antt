pub mod TakenLemmas
pub mod HistoryLemmas
pub mod CrashLemmas
