pub mod Touch
pub mod Cube
