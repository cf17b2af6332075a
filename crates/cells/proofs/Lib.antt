pub mod Seeks
pub mod Paths
pub mod Changes
pub mod Stores
pub mod Gives
pub mod Heads
pub mod Joins
pub mod Along
