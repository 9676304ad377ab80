-- Laws of the full comparison and of normal forms, over any width.
pub mod Lowest
pub mod Floors
pub mod Full
pub mod Forms
pub mod Masks
pub mod Told
pub mod Rows
