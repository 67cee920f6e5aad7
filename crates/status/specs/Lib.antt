pub mod Bits
pub mod Circuits
pub mod Naming
pub mod Parameter
