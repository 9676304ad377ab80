-- What the answers of shifts tell.
pub mod Told
