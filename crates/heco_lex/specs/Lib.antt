pub mod Kinds
pub mod Pieces
pub mod Places
pub mod Spaced
pub mod Splits
pub mod Steps
