pub mod StageLaws
pub mod FinishLaws
pub mod PlanLaws
pub mod EndLaws
pub mod DoneLaws
pub mod ProductLaws
