pub mod PushedTextLemmas
