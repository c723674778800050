pub mod Words
pub mod Spots
pub mod Shifts
