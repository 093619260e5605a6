pub mod ItemsLemmas
pub mod IterLemmas
pub mod WalkAheadLemmas
