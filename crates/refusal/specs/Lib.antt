pub mod Reading
pub mod Refusals
