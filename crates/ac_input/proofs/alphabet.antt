pub mod AlphabetLemmas
