pub mod Laws
pub mod Answers
pub mod Recode
pub mod Runs
pub mod Passes
pub mod Odd
pub mod TriangleBits
pub mod DigitBits
