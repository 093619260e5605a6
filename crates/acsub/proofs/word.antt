pub mod WordRunLemmas
