pub mod WrittenFiles
pub mod Executed
pub mod Ready
pub mod JobLaws
pub mod KeyLaws
pub mod ChainLaws
pub mod ChainFiles
