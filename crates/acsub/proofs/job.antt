pub mod JobLemmas
