pub mod SwapLemmas
