pub mod AheadLemmas
pub mod PartLemmas
