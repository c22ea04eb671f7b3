pub mod Texts
pub mod Chain
pub mod PairTask
pub mod Headline
pub mod Laws
