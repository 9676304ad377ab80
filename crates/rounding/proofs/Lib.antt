-- Laws of rounding words, over any width, and what the answers of this crate tell.
pub mod Words
pub mod Told
pub mod Only
