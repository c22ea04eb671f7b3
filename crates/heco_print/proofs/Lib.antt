pub mod Loops
pub mod Prints
