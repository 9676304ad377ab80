-- Laws of conversions, over any width and any comparison of sequences.
pub mod Reasons
pub mod Conversions
pub mod Refused
pub mod Counts
pub mod Numbers
pub mod Modes
pub mod ModeRows
