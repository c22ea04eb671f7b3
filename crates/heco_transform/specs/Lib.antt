pub mod FactorNumbers
pub mod Halves
pub mod Images
pub mod Limbs
pub mod Modulus
pub mod Tables
pub mod Values
