pub mod Word
pub mod View
pub mod Unique
