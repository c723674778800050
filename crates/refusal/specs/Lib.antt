pub mod Answer
pub mod Tests
pub mod Refusal
