pub mod Messages
pub mod Slots
pub mod Tables
pub mod Rows
pub mod Weighing
