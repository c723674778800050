pub mod Raster
pub mod inside
