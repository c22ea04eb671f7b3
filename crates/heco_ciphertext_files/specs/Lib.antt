pub mod CiphertextFiles
pub mod Counted
