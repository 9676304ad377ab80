-- Laws over two widths, v ≤ w: what a call gives at v bits, by what it gives at w.
pub mod Widths
pub mod Helpers
pub mod Words
pub mod Sizes
pub mod Sequences
pub mod Forms
