pub mod Runs
pub mod Results
pub mod Messages
pub mod Carried
pub mod Measured
pub mod DecryptedRows
pub mod CircuitKeys
