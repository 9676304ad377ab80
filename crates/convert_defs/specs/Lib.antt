pub mod Reasons
pub mod Convert
pub mod Modes
