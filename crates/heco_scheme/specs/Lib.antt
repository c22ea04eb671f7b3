pub mod Ciphertexts
pub mod Encryption
pub mod Gates
pub mod Keys
pub mod Noise
pub mod Rounding
