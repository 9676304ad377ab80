pub mod Sizes
pub mod Sequences
pub mod Calls
pub mod Told
pub mod Only
pub mod Sized
