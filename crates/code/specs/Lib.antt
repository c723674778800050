pub mod Step
pub mod Neighbours
