pub mod Pieces
pub mod Squares
