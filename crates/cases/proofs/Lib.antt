-- Laws of the recursion over the slots left.
pub mod Grown
pub mod Records
pub mod Written
