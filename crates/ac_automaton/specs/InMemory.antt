-- Searches of an input that is held in memory.
pub mod Find
pub mod Items
pub mod Iter
pub mod Overlapping
pub mod Replace
pub mod Words
