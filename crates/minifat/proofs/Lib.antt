pub mod Blocks
pub mod Fats
pub mod Gathers
pub mod Sectors
