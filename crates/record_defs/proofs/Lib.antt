-- Laws of records, over any width.
pub mod Records
pub mod RoundTrips
pub mod Only
