pub mod Seam
pub mod inside
