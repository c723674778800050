pub mod Held
pub mod Pieces
pub mod Joined
pub mod Answers
pub mod Placed
pub mod Located
