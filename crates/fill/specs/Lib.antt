pub mod Fill
pub mod inside
