pub mod Moves
pub mod Seats
pub mod Places
