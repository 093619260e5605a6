pub mod Least
pub mod Lists
pub mod Masking
pub mod Occurrences
pub mod Places
pub mod Ranks
