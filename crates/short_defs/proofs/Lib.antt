-- What is proved of short records and of moves.
pub mod Fields
pub mod Records
pub mod Lists
pub mod Meaning
pub mod Trips
pub mod Told
pub mod Ways
pub mod Only
