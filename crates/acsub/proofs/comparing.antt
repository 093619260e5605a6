pub mod CompareLemmas
