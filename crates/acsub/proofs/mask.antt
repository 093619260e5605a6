pub mod MaskRunLemmas
pub mod UnusedLemmas
