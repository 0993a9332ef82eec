pub mod Counting
pub mod Failing
pub mod Listed
pub mod Places
pub mod Turning
