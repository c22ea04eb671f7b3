pub mod Regained
