pub mod Bools
pub mod Steps
pub mod FirstBroken
pub mod Laws
pub mod FieldLaws
pub mod ManyLaws
pub mod Loops
pub mod FileLaws
