pub mod AnswerLaws
pub mod FitLaws
pub mod FormLaws
pub mod LineLaws
pub mod NumberLaws
pub mod RuleLaws
