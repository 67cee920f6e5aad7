pub mod Formats
pub mod Listed
pub mod Lists
pub mod Promises
pub mod RoundTrip
pub mod Rows
