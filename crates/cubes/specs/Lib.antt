pub mod Cubes
pub mod inside
