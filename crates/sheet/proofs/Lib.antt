pub mod Step
pub mod Whole
pub mod Digit
pub mod Group
pub mod Spell
pub mod Back
pub mod Decimal
