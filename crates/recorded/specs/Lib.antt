pub mod View
pub mod Tallies
