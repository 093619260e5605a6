-- Lemmas of masking whole words.
pub mod CostLemmas
pub mod WordMaskLemmas
