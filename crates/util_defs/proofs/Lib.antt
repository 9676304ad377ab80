-- Laws over any width, that this crate's proofs and those above it cite.
pub mod Powers
pub mod Rounding
pub mod Masks
pub mod Refusals
pub mod Tables
pub mod Helpers
pub mod Products
pub mod Only
pub mod Mapped
