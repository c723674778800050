pub mod Seven
pub mod Loops
pub mod Level
