pub mod Readers
pub mod Series
pub mod StatementReaders
pub mod Turns
pub mod BlockReaders
pub mod DefinitionReaders
pub mod SourceReaders
pub mod WholeSources
