pub mod Regained
pub mod Trees
