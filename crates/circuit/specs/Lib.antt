pub mod Changes
pub mod Circuits
pub mod Laws
pub mod Orders
pub mod Signals
