-- Lemmas of the search of a stream for whole words.
pub mod WordsLeftLemmas
pub mod WordStandsLemmas
pub mod WordGivenLemmas
pub mod WordReadLemmas
pub mod WordSearchLemmas
pub mod WordKeptLemmas
