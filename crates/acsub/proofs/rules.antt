pub mod EscapedLemmas
pub mod FirstLineLemmas
pub mod GrammarLemmas
pub mod LineLemmas
pub mod SpellingLemmas
