pub mod Cuts
pub mod Left
pub mod Faults
pub mod Forms
pub mod Numbers
pub mod Letters
pub mod Asks
pub mod Tokens
