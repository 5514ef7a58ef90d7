pub mod Ordered
pub mod Put
pub mod ByNumber
pub mod ByKey
pub mod Keyed
pub mod SeenLemmas
pub mod Totals
pub mod Sweeps
