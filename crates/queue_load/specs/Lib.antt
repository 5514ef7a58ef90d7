pub mod Reads
pub mod RowByRow
pub mod Tells
pub mod Loaded
pub mod Content
pub mod Store
pub mod Keyed
pub mod Queues
