-- What private functions claim.
pub mod Inner
