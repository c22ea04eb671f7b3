pub mod Drawn
pub mod Placed
