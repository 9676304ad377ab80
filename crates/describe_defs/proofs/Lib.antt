-- What is proved of type descriptions.
pub mod Elements
pub mod Steps
pub mod Grammar
pub mod Meaning
pub mod Accepted
pub mod ByHand
pub mod Faults
pub mod Reading
pub mod Heads
pub mod Worked
