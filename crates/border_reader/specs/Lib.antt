pub mod Reader
pub mod inside
