pub mod IdleLemmas
pub mod PassingLemmas
pub mod ReadOnLemmas
pub mod StopLemmas
