-- Laws over any width, that the crates above cite.
pub mod Fold
pub mod Greatest
pub mod Paddings
pub mod Meaning
pub mod Order
pub mod Bounds
pub mod Told
mod Cases
