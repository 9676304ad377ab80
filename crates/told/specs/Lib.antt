pub mod At64
pub mod At32
pub mod Beside
