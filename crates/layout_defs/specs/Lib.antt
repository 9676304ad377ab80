pub mod Layout
pub mod Unique
pub mod Extend
