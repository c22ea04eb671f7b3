pub mod InputLaws
pub mod SecondLaws
pub mod FirstLaws
pub mod SourceLaws
pub mod CircuitLaws
pub mod MaterialLaws
pub mod KeyFileLaws
pub mod CiphertextLaws
