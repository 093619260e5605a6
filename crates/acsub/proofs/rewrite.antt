pub mod RewriteLemmas
pub mod SendingLemmas
