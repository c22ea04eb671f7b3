pub mod Trees
pub mod Marks
