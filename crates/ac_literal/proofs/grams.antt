pub mod GramLemmas
