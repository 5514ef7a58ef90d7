pub mod BodyLemmas
pub mod WriteLemmas
pub mod ChunkLemmas
pub mod LineLemmas
pub mod FaultLemmas
pub mod ReadingLemmas
pub mod WholeLemmas
