pub mod GuardLemmas
