-- What is proved of the reading.
pub mod Ways
