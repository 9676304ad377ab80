-- Laws of the scalars of the 32-bit target.
pub mod Column
pub mod Accepted
