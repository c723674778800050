pub mod Connected
pub mod Beside
pub mod Placing
pub mod Reaching
pub mod Answers
pub mod Laws
