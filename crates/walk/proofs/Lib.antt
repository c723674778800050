pub mod Walks
pub mod Reach
pub mod Closure
