pub mod OtherNames
pub mod Renamed
pub mod Named
pub mod Along
pub mod Dropping
pub mod Full
pub mod Outputs
