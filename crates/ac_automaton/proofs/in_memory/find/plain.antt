pub mod PlainLemmas
pub mod RuledOutLemmas
