pub mod Chain
pub mod ExecTask
pub mod Headline
pub mod Laws
