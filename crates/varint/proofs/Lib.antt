pub mod Groups
pub mod Calls
pub mod Laws
pub mod Refusals
