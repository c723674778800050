pub mod Stencil
