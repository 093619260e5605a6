pub mod WalkingLemmas
