pub mod Headers
pub mod Judged
pub mod TurnLaws
pub mod EvalLaws
pub mod MadeEvaluation
