pub mod FingerprintLemmas
pub mod OpeningLemmas
