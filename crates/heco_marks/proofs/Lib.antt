pub mod Mending
pub mod Descents
pub mod Sets
pub mod Building
