pub mod Short
pub mod Moves
pub mod Trips
