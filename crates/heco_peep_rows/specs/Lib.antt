pub mod Louder
pub mod Longer
