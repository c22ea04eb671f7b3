pub mod Elements
pub mod Roots
