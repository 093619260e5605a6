pub mod OverlappingAheadLemmas
pub mod OverlappingLemmas
pub mod OverlappingReadLemmas
pub mod OverlappingStateLemmas
pub mod ShowLemmas
