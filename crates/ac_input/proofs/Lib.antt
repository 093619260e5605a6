pub mod Rows
pub mod lemmas
