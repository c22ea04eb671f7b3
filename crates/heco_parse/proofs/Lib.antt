pub mod OneRefusal
pub mod Reread
pub mod TreeFacts
