pub mod BuiltLemmas
pub mod ByteLemmas
pub mod EmptyLemmas
pub mod PairsLemmas
pub mod ParseLemmas
pub mod PlaceLemmas
pub mod TypedLemmas
pub mod ValueLemmas
