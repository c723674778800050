pub mod Walk
pub mod Reach
