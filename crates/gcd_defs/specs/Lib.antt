pub mod Gcd
pub mod Fraction
