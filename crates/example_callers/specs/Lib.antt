pub mod Callers
pub mod Pushed
pub mod PushedText
