pub mod ExecutionLaws
pub mod CompileLaws
pub mod KeyLaws
pub mod JobLaws
pub mod RunLaws
pub mod MadeFileLaws
pub mod MeasuredFileLaws
pub mod MeasureLaws
