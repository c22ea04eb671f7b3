pub mod Noises
