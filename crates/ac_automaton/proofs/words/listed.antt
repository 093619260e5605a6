-- Lemmas of searches for all whole words.
pub mod ListedWordLemmas
