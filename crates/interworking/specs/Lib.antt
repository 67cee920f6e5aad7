pub mod Acting
pub mod Exchanges
pub mod Lines
pub mod Opening
pub mod Runs
pub mod Settling
pub mod Stepping
