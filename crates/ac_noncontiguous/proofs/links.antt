pub mod ListLemmas
pub mod RangesLemmas
