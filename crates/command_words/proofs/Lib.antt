pub mod CommandLineLemmas
pub mod DefinitionLemmas
pub mod ValueLemmas
