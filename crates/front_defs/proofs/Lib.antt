-- Laws of the part that is read in place, over any width.
pub mod Fronts
