pub mod Effects
pub mod Bits
pub mod Tallies
pub mod Wishes
pub mod Keys
pub mod Chains
pub mod Reading
pub mod Outdoing
