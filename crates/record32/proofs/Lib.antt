-- Records at 32 bits, by those at 64.
pub mod Narrowed
