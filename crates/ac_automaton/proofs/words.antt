-- Lemmas of searches for whole words.
pub mod WindowLemmas
pub mod WordPlaceLemmas
pub mod FinalLemmas
pub mod WordCostLemmas
