-- Laws of arrays and slices over two widths, v ≤ w: what a call gives at v bits, by what it gives at w.
pub mod Narrowed
