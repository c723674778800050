pub mod Cell
pub mod Site
pub mod inside
