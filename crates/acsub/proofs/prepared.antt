pub mod FinderLemmas
pub mod ServedLemmas
