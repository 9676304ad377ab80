pub mod Cases
pub mod Order
pub mod Write
