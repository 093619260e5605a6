pub mod CountedLemmas
pub mod FindLemmas
pub mod FindWalkLemmas
pub mod TakenLemmas
pub mod ToldLemmas
