pub mod Ends
pub mod Fields
pub mod Marks
pub mod Orders
pub mod Sets
pub mod Turns
