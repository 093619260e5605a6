-- Lemmas of the text of a stream that is searched for whole words.
pub mod HeldTextLemmas
pub mod HoldsLemmas
