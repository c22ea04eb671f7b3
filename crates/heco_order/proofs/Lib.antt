pub mod Ordered
pub mod Picked
pub mod PickedExpressions
pub mod PickedSources
pub mod Rising
