pub mod Changing
pub mod Dropped
pub mod Ready
