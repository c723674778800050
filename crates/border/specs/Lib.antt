pub mod Stored
pub mod Border
