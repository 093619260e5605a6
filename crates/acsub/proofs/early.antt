pub mod EarlyFileLemmas
pub mod EarlyLemmas
