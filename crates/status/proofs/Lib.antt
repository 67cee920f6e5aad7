pub mod Bits
pub mod Cleared
pub mod Names
