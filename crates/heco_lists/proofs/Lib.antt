pub mod ListLaws
pub mod Lengths
