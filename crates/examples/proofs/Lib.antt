pub mod Chains
pub mod Computed
pub mod Resizes
pub mod Sectors
