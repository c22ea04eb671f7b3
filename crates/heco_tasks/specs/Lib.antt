pub mod DrawnFiles
pub mod Executions
pub mod SourceTasks
pub mod Running
pub mod CircuitTasks
pub mod MeasureTask
pub mod MadeFiles
pub mod MeasuredFiles
