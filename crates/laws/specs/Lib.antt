pub mod Addressing
pub mod Blocks
pub mod Calls
pub mod Causes
pub mod Events
pub mod Naming
pub mod Octets
pub mod Sending
