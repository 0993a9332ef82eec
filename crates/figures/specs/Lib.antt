pub mod Counted
pub mod Extended
pub mod Rows
