pub mod Heads
pub mod Rewrite
pub mod Means
