pub mod SampleText
pub mod Laws
