pub mod CountLaws
pub mod Counted
pub mod CiphertextLaws
pub mod Files
