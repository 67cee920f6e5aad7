pub mod Fields
pub mod Keeping
pub mod Members
pub mod Ordering
pub mod Runs
pub mod Updates
