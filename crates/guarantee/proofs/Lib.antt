-- Demand 3, over any width and comparison, and at 64 and 32 bits.
pub mod Demand
pub mod Uses
