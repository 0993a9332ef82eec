pub mod Forms
pub mod Exchanging
pub mod Tests
pub mod Lists
pub mod Standings
