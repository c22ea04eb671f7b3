pub mod KeyLists
pub mod KeyFormat
pub mod EncFormat
pub mod MaterialFile
pub mod Drawn
