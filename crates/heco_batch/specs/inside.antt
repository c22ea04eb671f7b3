pub mod Homes
pub mod Places
pub mod Sums
pub mod Written
