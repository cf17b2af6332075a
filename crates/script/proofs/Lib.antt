pub mod Cuts
pub mod Tried
