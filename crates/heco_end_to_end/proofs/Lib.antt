pub mod FreshInputs
pub mod OutputWires
pub mod DecryptedRuns
pub mod MeasuredRuns
pub mod InARow
