pub mod Plaintexts
pub mod Stores
