pub mod KeyLaws
pub mod EncLaws
pub mod Answered
pub mod PresetErrors
pub mod Counts
pub mod DrawnKeys
