-- Laws of conversions over two widths, v ≤ w.
pub mod Matching
pub mod Converting
pub mod Shifts
