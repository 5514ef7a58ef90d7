pub mod LeftLemmas
pub mod HeadLemmas
pub mod FieldLemmas
pub mod PlanLemmas
pub mod RouteLemmas
pub mod PrefixLemmas
pub mod DocumentLemmas
