pub mod Assembly
pub mod Edges
pub mod Layout
pub mod Numbering
pub mod Only
