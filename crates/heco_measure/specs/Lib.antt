pub mod Measuring
pub mod Lines
pub mod inside
