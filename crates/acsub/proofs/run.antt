pub mod CountLemmas
pub mod FileLemmas
pub mod RunLawLemmas
pub mod RunLemmas
