pub mod Pairs
pub mod Lights
pub mod Joining
pub mod Groups
pub mod Closed
pub mod Home
pub mod Laws
pub mod Seams
