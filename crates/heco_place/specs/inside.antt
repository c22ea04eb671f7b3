pub mod Carried
pub mod Cells
pub mod Depths
pub mod Dues
pub mod Placing
pub mod Ways
