pub mod ReplacerLemmas
