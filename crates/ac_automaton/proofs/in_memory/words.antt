-- Lemmas of the walk over whole words.
pub mod WordWalkLemmas
