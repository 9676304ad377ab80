-- Laws of casts over two widths, v ≤ w.
pub mod Casting
pub mod Exact
