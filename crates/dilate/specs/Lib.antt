pub mod Dilate
