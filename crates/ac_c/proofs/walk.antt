pub mod CursorLemmas
pub mod FillLemmas
