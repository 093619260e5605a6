pub mod FillWordsLemmas
