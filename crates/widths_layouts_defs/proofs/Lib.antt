-- Laws of layouts over two widths, v ≤ w: what a call gives at v bits, by what it gives at w.
pub mod Layouts
pub mod Made
pub mod Step
pub mod Closing
