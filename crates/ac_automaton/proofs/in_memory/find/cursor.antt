pub mod ReadToMatchLemmas
