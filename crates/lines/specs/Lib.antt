pub mod Opens
pub mod Ranks
pub mod Commands
