pub mod Chunks
pub mod ChunkEnds
pub mod ChunkParts
pub mod LineEnds
pub mod Bodies
pub mod Fault
pub mod Responses
