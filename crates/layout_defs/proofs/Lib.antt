-- Laws of layouts, over any width.
pub mod Passes
pub mod Layouts
pub mod Steps
pub mod Only
pub mod Onto
