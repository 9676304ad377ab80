-- Laws of the papers that no contract of a function carries, at 32 bits.
pub mod Named
pub mod Compositions
