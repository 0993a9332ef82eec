pub mod Dictionary
pub mod Exchanges
pub mod Reaching
pub mod Outdoing
