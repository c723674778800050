pub mod Digits
pub mod Bits
pub mod Lists
pub mod Walks
pub mod Laws
