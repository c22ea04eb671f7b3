pub mod Amounts
pub mod Made
pub mod RowImages
