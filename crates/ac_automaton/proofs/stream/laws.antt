pub mod DeathLemmas
