-- Laws of compositions, over any width.
pub mod Compositions
pub mod Modifiers
pub mod Strict
pub mod Accepted
pub mod Places
pub mod Written
pub mod Landing
pub mod Typed
