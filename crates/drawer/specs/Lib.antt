pub mod Drawn
pub mod Entries
