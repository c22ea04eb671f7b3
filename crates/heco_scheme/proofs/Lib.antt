pub mod Empty
pub mod FreshNoise
pub mod LinearNoise
pub mod NoiseLaws
pub mod PartLaws
pub mod ProductNoise
pub mod SwitchedNoise
pub mod WeighedNoise
