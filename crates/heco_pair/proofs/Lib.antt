pub mod Apart
pub mod ChainLaws
pub mod JobLaws
pub mod Paired
pub mod Ready
mod Calls
pub mod ChainFiles
