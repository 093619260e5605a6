pub mod UnusedByteLemmas
