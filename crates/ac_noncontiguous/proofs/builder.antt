pub mod BuildLemmas
pub mod BuilderLemmas
