-- Laws of words.
pub mod LittleEndian
