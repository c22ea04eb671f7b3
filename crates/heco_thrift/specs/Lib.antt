pub mod Homes
pub mod Thrift
pub mod Placed
pub mod Deep
