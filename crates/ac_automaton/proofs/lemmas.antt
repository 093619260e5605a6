pub mod CandidateLemmas
pub mod CursorLemmas
pub mod ReplaceLemmas
pub mod WalkEndLemmas
pub mod WalkLemmas
