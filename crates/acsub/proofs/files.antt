pub mod FileRunLemmas
pub mod FoldLemmas
pub mod LabelledRunLemmas
