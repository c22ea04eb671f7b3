pub mod ListFormat
