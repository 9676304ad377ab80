pub mod Low
pub mod Within
