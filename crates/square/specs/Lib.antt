pub mod Square
pub mod inside
