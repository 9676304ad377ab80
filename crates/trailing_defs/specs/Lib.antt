pub mod Size
pub mod Count
pub mod Sequence
pub mod Calls
pub mod Sized
