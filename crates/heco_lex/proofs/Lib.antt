pub mod Fronts
pub mod Unique
pub mod Advances
pub mod SpacedSplits
pub mod Spans
pub mod OneRefusal
