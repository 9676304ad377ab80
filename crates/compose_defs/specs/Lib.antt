pub mod Compose
pub mod Strict
pub mod Places
pub mod Typed
