pub mod Match
pub mod Mode
pub mod Shift
