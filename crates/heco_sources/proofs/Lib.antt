pub mod InputLaws
pub mod SourceLaws
