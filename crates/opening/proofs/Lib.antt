pub mod Homes
pub mod Checks
