pub mod Cast
pub mod Exact
