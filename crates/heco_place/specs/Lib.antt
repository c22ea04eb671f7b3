pub mod Fitting
pub mod Refusals
pub mod Kinds
pub mod NodeHomes
pub mod Ports
pub mod inside
