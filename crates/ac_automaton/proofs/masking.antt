-- Lemmas of masking.
mod BetweenLemmas
pub mod MaskingLemmas
