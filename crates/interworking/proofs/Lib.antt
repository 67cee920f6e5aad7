pub mod Cuts
pub mod Doing
pub mod Emptying
pub mod Going
pub mod Sizes
