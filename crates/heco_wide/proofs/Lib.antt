pub mod Changes
pub mod Joins
pub mod LimbLaws
pub mod Products
pub mod Shifts
