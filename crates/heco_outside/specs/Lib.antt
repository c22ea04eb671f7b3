pub mod Causes
pub mod Calls
pub mod Lookup
pub mod Planned
pub mod MemStores
pub mod MemSinks
pub mod OutSinks
