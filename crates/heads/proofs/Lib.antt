-- What is proved of heads.
pub mod Ways
