pub mod Bits
pub mod View
