pub mod JoinedLemmas
pub mod HeldLaws
