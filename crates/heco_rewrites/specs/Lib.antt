pub mod Wires
pub mod Renaming
pub mod Needed
pub mod Dropping
pub mod Full
