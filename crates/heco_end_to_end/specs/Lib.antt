pub mod EndToEnd
pub mod InARow
pub mod Measured
