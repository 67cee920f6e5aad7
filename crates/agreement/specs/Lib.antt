pub mod Agreeing
pub mod Playing
pub mod Reading
pub mod Runs
pub mod Settling
