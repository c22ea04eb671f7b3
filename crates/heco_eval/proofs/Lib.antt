pub mod Moduli
pub mod OutputCounts
