pub mod DrawnRows
pub mod DrawnMaterial
pub mod Refusals
pub mod Values
pub mod JobLaws
