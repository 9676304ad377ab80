pub mod Demand
pub mod View
