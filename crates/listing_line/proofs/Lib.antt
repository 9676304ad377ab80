-- Laws of decimal digits and of lines.
pub mod Lines
