pub mod Octants
pub mod Signed
pub mod Common
pub mod Laws
pub mod Reach
