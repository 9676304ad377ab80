-- Laws of padding, over any width.
pub mod Padding
pub mod Settled
pub mod Marks
pub mod Only
