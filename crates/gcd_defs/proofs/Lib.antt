-- Laws that the crates above cite.
pub mod Divisors
pub mod Fractions
