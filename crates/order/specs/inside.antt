-- What private functions claim.
pub mod Ranks
