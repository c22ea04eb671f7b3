pub mod Turns
pub mod Levels
pub mod Verdicts
pub mod Weaken
pub mod Viable
pub mod Complete
pub mod Steady
