pub mod Gaps
pub mod Settled
pub mod Plaintexts
pub mod Messages
pub mod Storing
pub mod Phases
