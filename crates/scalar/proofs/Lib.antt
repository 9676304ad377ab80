-- Laws of scalars, over any target.
pub mod Scalars
pub mod Column
