pub mod Grow
pub mod inside
