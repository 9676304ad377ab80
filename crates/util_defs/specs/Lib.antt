pub mod Width
pub mod Power
pub mod Round
pub mod Refusal
pub mod Helpers
pub mod Placed
pub mod Unique
