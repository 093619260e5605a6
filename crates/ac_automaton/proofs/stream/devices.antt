pub mod BufferLemmas
pub mod MovedLemmas
pub mod OutputLemmas
pub mod WriteWholeLoop
