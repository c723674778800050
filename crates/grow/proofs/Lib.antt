pub mod Shrinking
pub mod Answers
