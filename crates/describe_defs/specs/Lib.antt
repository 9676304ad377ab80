pub mod Elements
pub mod Describe
pub mod Grammar
pub mod Heads
pub mod Faults
pub mod ByHand
