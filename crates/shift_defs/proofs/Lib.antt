-- Laws of matches and shifts, over any width and any comparison of sequences.
pub mod Matching
pub mod Shifts
pub mod Modes
