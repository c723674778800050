pub mod Turns
pub mod Joining
pub mod Crossing
pub mod Left
