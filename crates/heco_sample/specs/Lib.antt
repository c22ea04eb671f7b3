pub mod Drawn
pub mod Summary
pub mod SampleTask
