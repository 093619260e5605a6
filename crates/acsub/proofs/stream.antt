pub mod CountedLemmas
pub mod CutLemmas
pub mod ReplacedLemmas
pub mod StreamListLemmas
pub mod StreamedLemmas
