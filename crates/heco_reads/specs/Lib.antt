pub mod SourceFiles
pub mod CircuitFiles
pub mod MaterialFiles
pub mod KeyFiles
pub mod CiphertextFiles
