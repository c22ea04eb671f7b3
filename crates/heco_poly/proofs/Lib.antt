pub mod Changes
pub mod Products
pub mod Written
