pub mod Remainders
pub mod Ring
pub mod Rows
pub mod Sizes
pub mod Slots
