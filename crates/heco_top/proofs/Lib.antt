pub mod SeedLaws
pub mod CommandLaws
pub mod RunLaws
pub mod TopLaws
pub mod PlainLaws
mod RowLaws
mod ExecLaws
mod PairLaws
mod MeasureLaws
