pub mod Whole
pub mod Same
pub mod Turning
pub mod Trips
pub mod Meaning
pub mod Worked
