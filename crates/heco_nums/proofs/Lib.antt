pub mod Amounts
pub mod ListedLaws
pub mod OnePreset
pub mod Powers
pub mod PresetCases
pub mod PresetFacts
