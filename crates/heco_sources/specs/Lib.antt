pub mod Inputs
pub mod Sources
