-- Laws of casts, over any width.
pub mod Grants
pub mod Exact
pub mod Order
pub mod Only
