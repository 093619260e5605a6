pub mod Settings
pub mod Command
pub mod Values
pub mod Misuse
pub mod Words
