pub mod Make
