-- What the answers of casts tell.
pub mod Told
