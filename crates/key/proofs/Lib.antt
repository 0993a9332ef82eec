pub mod Reach
pub mod Soundness
pub mod Members
pub mod Rows
pub mod Fronts
pub mod Tests
