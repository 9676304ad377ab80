-- The heads of a description where the code reads and writes them.
pub mod Ways
pub mod Loops
pub mod Ends
