-- Laws of the layouts made of numbers, over any width.
pub mod Made
