-- Laws of recorded answers.
pub mod Reading
