pub mod Flood
pub mod inside
