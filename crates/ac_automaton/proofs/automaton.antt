pub mod FreeLemmas
pub mod LinkedLemmas
pub mod NamedLemmas
pub mod NamedPassingLemmas
pub mod PassLemmas
pub mod SpecialLemmas
pub mod TestLemmas
