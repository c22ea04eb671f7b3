pub mod Refusals
pub mod Compiling
pub mod inside
