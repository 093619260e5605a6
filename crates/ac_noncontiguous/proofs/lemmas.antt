pub mod CopyLemmas
pub mod IndexLemmas
pub mod OrderLemmas
