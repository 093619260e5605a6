pub mod OutcomeLemmas
pub mod ByFileLemmas
pub mod FilesOutcomeLemmas
