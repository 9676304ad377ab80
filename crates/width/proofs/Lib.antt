-- Laws of the two widths: the steps of a loop are those of the width, and the width holds what they give and what is read.
pub mod Steps
pub mod Reading
