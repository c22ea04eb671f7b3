pub mod Table
pub mod Roots
pub mod Plain
pub mod inside
