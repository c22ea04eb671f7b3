pub mod Judging
pub mod KeyFiles
