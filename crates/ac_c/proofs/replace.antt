pub mod ReplaceLemmas
