pub mod Answers
pub mod Forms
pub mod Kinds
pub mod Lines
pub mod Numbers
pub mod Outputs
pub mod Rules
pub mod inside
