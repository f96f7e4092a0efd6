pub mod Searching
pub mod Years
pub mod Months
pub mod RoundTrip
