pub mod FindAheadLemmas
pub mod MetLemmas
