pub mod Spans
pub mod Lengths
pub mod Cuts
pub mod Once
