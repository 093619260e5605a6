-- Lemmas of masking the whole words of a stream.
pub mod WordEndLemmas
pub mod WordMaskerLemmas
pub mod WordPushLemmas
pub mod WordReadLemmas
pub mod WritingLemmas
