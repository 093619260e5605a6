-- Lemmas of the search of a stream for all whole words.
pub mod ListedStandsLemmas
pub mod ListedSearchLemmas
pub mod ListedKeptLemmas
