pub mod Layouts
pub mod Questions
