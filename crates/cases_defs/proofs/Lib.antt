-- Laws of all short member lists.
pub mod Orders
pub mod Listed
pub mod Counted
pub mod Wrote
