-- Descriptions that were read.
pub mod Read
