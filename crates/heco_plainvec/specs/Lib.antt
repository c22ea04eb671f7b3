pub mod Gathering
pub mod Gathered
pub mod Kept
pub mod inside
