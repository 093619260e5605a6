pub mod BuildLemmas
pub mod TableLemmas
