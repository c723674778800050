pub mod Touching
pub mod Triangles
pub mod Beside
pub mod Cells
pub mod Spread
