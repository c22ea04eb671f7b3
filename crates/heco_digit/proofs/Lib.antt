pub mod DigitSums
