-- What is read at 32 bits, narrowed.
pub mod Narrowed
